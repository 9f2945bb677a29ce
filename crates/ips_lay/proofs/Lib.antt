pub mod Copied
pub mod Unlaid
pub mod Intact
pub mod Told
pub mod Recorded
