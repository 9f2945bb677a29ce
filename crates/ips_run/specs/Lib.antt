pub mod Planned
pub mod Ending
pub mod Comes
pub mod Phases
pub mod Creating
pub mod Unopened
pub mod Exclusive
