pub mod displaced
pub mod mended
