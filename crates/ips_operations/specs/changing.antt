pub mod Commands
pub mod Plans
pub mod Refusals
pub mod Decides
pub mod Leads
pub mod Deciding
