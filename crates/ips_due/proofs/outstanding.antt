pub mod Answered
pub mod Compared
pub mod Gone
mod Marks
mod Meant
mod Noting
