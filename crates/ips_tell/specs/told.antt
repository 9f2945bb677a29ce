pub mod Told
pub mod Naming
pub mod Laying
