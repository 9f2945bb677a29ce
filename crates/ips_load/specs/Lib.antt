pub mod Held
pub mod HeadLines
pub mod Fault
