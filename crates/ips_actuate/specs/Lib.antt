pub mod Actuators
pub mod Gathering
pub mod Running
