pub mod Holding
pub mod Left
pub mod Ordered
pub mod Sorting
