pub mod Name
pub mod Digest
pub mod Holding
