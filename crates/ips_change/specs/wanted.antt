pub mod Wanted
pub mod Named
