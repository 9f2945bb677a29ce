pub mod Lines
pub mod Listed
pub mod Sections
pub mod Form
pub mod Field
