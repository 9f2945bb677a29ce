pub mod Matching
pub mod Names
pub mod Written
pub mod Made
pub mod Lines
pub mod Absence
pub mod Wanted
pub mod Sparing
