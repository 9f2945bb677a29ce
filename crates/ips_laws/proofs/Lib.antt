pub mod Elements
pub mod InOrder
pub mod Apart
pub mod Pairs
pub mod OneEntry
pub mod OneMeaning
