pub mod Legacy
pub mod Fitting
mod Meant
