pub mod Told
pub mod Comes
pub mod Stops
pub mod Sent
pub mod Done
