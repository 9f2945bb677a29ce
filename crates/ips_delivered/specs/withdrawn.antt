pub mod Sets
pub mod Withdrawn
