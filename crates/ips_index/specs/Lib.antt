pub mod Rows
pub mod Scan
pub mod Text
pub mod Entries
