pub mod Scans
pub mod Pieces
pub mod Joined
pub mod Digits
pub mod Manifests
