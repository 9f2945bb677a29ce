pub mod Branches
pub mod Gathered
pub mod Rowed
pub mod Sorting
pub mod Salvaged
pub mod Saving
