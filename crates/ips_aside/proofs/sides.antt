pub mod Longer
pub mod Beside
pub mod Named
pub mod Added
