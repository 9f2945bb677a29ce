pub mod Shown
pub mod Naming
