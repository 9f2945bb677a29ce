pub mod Ending
pub mod Publishing
pub mod Writing
pub mod Answers
