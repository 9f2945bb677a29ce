pub mod Moments
pub mod Bare
pub mod Contents
pub mod Staging
pub mod Seen
