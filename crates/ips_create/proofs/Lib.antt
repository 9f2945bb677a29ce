pub mod Layouts
pub mod Moments
pub mod Phases
pub mod Behind
