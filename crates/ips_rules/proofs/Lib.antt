pub mod Equals
pub mod Reader
pub mod Spelling
pub mod One
pub mod Left
pub mod Counted
pub mod Behind
