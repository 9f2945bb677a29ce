pub mod Moments
pub mod Sides
