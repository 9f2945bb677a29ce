pub mod Fault
pub mod Values
pub mod Operands
pub mod Options
pub mod Completing
pub mod Commands
pub mod Lines
