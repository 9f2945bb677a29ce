pub mod Putting
pub mod Settling
pub mod Two
pub mod Ready
