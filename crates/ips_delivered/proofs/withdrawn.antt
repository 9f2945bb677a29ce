pub mod More
mod Places
mod Going
