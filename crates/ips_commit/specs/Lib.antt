pub mod Answers
pub mod Pending
pub mod Due
pub mod Staging
pub mod Phases
pub mod Recovering
pub mod Calls
