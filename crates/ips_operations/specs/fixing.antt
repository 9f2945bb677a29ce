pub mod Fixes
pub mod Told
pub mod Decides
pub mod Deciding
