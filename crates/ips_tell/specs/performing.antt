pub mod Performed
