pub mod Puts
pub mod Places
pub mod Ends
pub mod While
pub mod Pair
pub mod Entire
pub mod Settled
