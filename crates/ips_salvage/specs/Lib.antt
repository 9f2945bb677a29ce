pub mod Destroying
