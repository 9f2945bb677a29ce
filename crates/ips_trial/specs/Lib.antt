pub mod Counted
pub mod Carried
pub mod Generated
