pub mod Parts
pub mod PathsDiffer
pub mod Written
pub mod OneHead
pub mod OnePackage
pub mod OneState
pub mod ReadBack
pub mod HeldOnce
