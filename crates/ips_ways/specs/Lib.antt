pub mod Ways
pub mod First
