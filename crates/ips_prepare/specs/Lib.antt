pub mod Prepared
pub mod Limits
