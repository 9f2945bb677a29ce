pub mod Long
pub mod Lost
pub mod Ways
pub mod lost_and_found
pub mod sides
