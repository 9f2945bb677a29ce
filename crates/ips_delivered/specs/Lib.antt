pub mod delivered
pub mod new_licenses
pub mod withdrawn
