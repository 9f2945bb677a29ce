pub mod Stands
pub mod Told
pub mod Fitting
pub mod content
pub mod survey
pub mod wanted
