pub mod Delivering
pub mod Kept
pub mod Named
