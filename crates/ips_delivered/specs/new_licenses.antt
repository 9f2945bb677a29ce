pub mod New
pub mod Kept
