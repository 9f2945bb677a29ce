pub mod Cases
pub mod Numbering
