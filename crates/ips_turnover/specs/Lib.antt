pub mod Seen
pub mod Turnover
