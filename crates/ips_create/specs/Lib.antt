pub mod Created
pub mod Making
pub mod Judging
pub mod Ready
