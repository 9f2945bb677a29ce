pub mod Mediation
pub mod Best
pub mod Order
