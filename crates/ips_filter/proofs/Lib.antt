mod Views
pub mod Facets
mod Tags
