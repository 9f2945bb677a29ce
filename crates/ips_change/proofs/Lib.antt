pub mod Seen
mod Answered
mod Ruled
mod Examples
