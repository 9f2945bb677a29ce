pub mod Contents
pub mod Writing
