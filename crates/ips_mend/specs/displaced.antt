pub mod Displacing
