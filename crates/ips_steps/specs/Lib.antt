pub mod Targets
pub mod Steps
pub mod Private
pub mod Journal
pub mod Listed
pub mod Outcome
pub mod Owed
pub mod View
