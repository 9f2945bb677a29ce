pub mod Leading
pub mod Made
pub mod Supporting
pub mod Fitting
