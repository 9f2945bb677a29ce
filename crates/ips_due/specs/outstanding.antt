pub mod Parts
pub mod Verdicts
pub mod Noted
pub mod Outstanding
