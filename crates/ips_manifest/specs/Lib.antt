pub mod Logical
pub mod Text
pub mod Manifest
pub mod Draft
pub mod Next
pub mod Seen
