pub mod Led
pub mod Linked
pub mod Directories
pub mod Fitted
