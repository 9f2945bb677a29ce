pub mod Decimals
pub mod Ended
pub mod Pieces
pub mod Written
pub mod Read
