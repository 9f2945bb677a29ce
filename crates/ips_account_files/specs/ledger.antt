pub mod Left
pub mod Texts
pub mod Blocking
pub mod Editing
pub mod Base
