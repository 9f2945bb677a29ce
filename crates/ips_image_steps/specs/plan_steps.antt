pub mod Plan
pub mod Drawing
