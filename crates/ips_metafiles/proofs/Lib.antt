pub mod DriverLines
pub mod Licenses
