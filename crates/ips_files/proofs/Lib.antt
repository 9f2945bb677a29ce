pub mod Parts
pub mod Tellings
pub mod Found
