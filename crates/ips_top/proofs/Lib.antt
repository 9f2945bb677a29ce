mod Asking
mod Commands
pub mod Takers
