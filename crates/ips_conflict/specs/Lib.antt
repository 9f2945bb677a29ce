pub mod Delivered
pub mod Key
pub mod Alike
pub mod Verdict
pub mod Order
pub mod Clash
pub mod Index
pub mod Search
