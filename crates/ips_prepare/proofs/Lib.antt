pub mod Named
pub mod Entries
pub mod Paths
pub mod Sizes
