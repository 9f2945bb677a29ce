pub mod Acting
pub mod Judging
pub mod Applied
