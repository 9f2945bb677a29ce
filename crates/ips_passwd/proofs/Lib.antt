pub mod Places
pub mod Firsts
pub mod Maps
pub mod Frees
pub mod Found
pub mod OwnerNumbers
