pub mod Groups
pub mod Chosen
pub mod Marking
