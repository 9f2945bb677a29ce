pub mod Accounts
pub mod Lines
pub mod Reading
pub mod Seen
pub mod Writing
