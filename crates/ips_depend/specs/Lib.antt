pub mod Matching
pub mod Selection
pub mod Dependency
pub mod Holds
pub mod Asking
pub mod Laws
pub mod Kept
pub mod Read
