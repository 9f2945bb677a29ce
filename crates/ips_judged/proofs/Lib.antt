pub mod Dues
pub mod Versions
pub mod Assembled
pub mod Ends
