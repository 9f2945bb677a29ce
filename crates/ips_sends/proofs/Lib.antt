pub mod Stops
pub mod Beside
pub mod Apart
pub mod Free
