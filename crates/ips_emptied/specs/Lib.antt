pub mod Settling
pub mod Emptying
pub mod Joining
pub mod order
