pub mod Histories
pub mod Resumed
