pub mod Ordered
pub mod Places
pub mod Frozen
pub mod HeadTexts
