pub mod Same
pub mod Decided
pub mod Causes
