pub mod Ranked
