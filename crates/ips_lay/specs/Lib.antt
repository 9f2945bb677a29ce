pub mod Laid
pub mod Lists
pub mod Records
