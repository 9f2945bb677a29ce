mod Founding
mod Decided
pub mod Telling
