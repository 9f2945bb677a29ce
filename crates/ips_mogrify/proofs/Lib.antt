pub mod Patterns
pub mod Fitting
pub mod Making
pub mod Words
pub mod Unread
