pub mod Creations
pub mod Told
pub mod Decides
