pub mod Fault
pub mod Held
pub mod Whole
