pub mod Line
pub mod Canonical
pub mod Classes
pub mod Reading
pub mod Seen
