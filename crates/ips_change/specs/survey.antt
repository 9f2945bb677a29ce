pub mod Pairs
pub mod Rows
pub mod Marks
pub mod Said
pub mod Tables
pub mod Lines
pub mod Kinds
