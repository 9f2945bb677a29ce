pub mod State
pub mod Form
pub mod Text
pub mod Lawful
pub mod Records
