pub mod Numerals
pub mod Offered
pub mod Compared
pub mod Ranked
