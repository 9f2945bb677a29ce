pub mod Calls
mod Proper
mod Carried
mod Ungiven
