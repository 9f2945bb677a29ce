pub mod Remaining
pub mod Placed
pub mod Leaving
pub mod Asked
