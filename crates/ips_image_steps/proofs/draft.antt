pub mod Targets
mod Drafted
mod Saving
