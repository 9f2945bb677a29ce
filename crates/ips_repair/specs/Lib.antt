pub mod Meant
pub mod Repairing
pub mod Gathered
pub mod Drawing
