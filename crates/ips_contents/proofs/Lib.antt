pub mod OwnPaths
pub mod Wrote
pub mod Written
pub mod Copies
pub mod Puts
pub mod AllWritten
pub mod Tried
