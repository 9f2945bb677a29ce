pub mod Alike
pub mod Tried
pub mod Decided
pub mod Choosing
pub mod Next
pub mod Leading
pub mod Best
