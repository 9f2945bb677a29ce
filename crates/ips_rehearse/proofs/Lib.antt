pub mod Trials
pub mod Paths
pub mod Longest
pub mod Keys
pub mod Passing
pub mod Opens
pub mod Busy
pub mod Going
