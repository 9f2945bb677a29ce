pub mod Found
pub mod Apart
mod Digests
