pub mod Names
pub mod Sided
