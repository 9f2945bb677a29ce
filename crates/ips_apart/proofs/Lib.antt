pub mod Pieces
pub mod Words
pub mod Listed
pub mod Beginnings
