pub mod Made
pub mod Creating
pub mod Planning
