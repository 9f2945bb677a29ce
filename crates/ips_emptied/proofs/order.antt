pub mod Places
pub mod Filtered
pub mod Grouped
