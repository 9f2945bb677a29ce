pub mod Movable
pub mod First
