pub mod Answered
mod Silent
mod Givings
pub mod Bases
