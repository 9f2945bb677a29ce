pub mod Meaning
pub mod Refuting
pub mod Text
pub mod Reading
pub mod Table
pub mod Laws
