pub mod Text
pub mod Bad
pub mod Reading
pub mod Escape
pub mod Line
pub mod Holding
pub mod Writing
