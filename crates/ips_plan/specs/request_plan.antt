pub mod Causes
pub mod Plans
