pub mod Causes
pub mod Commands
