mod Paired
pub mod Placed
mod Surveyed
mod Reached
mod Topping
pub mod Marking
pub mod Filling
pub mod Marked
