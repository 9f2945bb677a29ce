pub mod Strays
pub mod foreign
