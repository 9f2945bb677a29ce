pub mod Meaning
pub mod Accounts
pub mod Between
pub mod Steps
pub mod Licenses
pub mod Acting
pub mod Behind
