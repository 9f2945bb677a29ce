pub mod Named
pub mod Keyed
pub mod Set
pub mod Origins
pub mod Asked
pub mod Founded
pub mod Requested
pub mod Formed
