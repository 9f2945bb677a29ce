pub mod Due
pub mod State
pub mod Delivered
pub mod Asked
pub mod Apart
pub mod outstanding
