mod Names
mod Owning
mod Numbered
mod Rows
pub mod Picked
mod Drivers
pub mod OneList
pub mod Lent
pub mod Places
pub mod Outcomes
