pub mod Clock
pub mod Ended
pub mod Ends
pub mod Locking
pub mod Mogrified
pub mod Named
pub mod Sent
