pub mod Comparing
pub mod Fronts
pub mod Scanning
pub mod Same
pub mod Phases
pub mod Best
pub mod OneDecided
pub mod Recorded
pub mod OneNext
mod Leading
pub mod OfKind
