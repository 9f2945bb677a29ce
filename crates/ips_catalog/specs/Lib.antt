pub mod Listed
pub mod Pointer
pub mod Seen
pub mod Stem
pub mod Reading
pub mod Catalog
pub mod Outline
