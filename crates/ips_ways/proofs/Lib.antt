pub mod Giving
pub mod Made
pub mod First
pub mod Stand
