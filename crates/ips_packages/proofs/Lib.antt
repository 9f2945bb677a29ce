pub mod LineNumbers
pub mod Records
pub mod Loaded
pub mod Sorting
pub mod Handed
pub mod Folders
