pub mod Merging
pub mod Mending
pub mod Ordering
pub mod Drafting
