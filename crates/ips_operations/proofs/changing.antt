mod Payloads
pub mod Decided
pub mod Telling
mod Calls
