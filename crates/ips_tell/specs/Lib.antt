pub mod performing
pub mod refusals
pub mod telling
pub mod told
