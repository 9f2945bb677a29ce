pub mod Written
pub mod Report
