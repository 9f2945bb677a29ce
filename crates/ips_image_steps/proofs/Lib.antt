mod Asked
pub mod Gathered
pub mod Staged
mod Hindered
mod Moved
pub mod Unsaved
