pub mod Meaning
pub mod History
pub mod Help
pub mod Command
