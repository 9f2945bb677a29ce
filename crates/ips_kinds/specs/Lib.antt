pub mod Acts
pub mod Tallies
