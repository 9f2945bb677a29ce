pub mod Settings
pub mod Facet
pub mod View
pub mod Admitted
