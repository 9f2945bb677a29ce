pub mod Asked
pub mod Plans
pub mod Tried
pub mod Going
pub mod Rehearsed
pub mod Opening
