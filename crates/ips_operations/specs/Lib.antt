pub mod changing
pub mod creating
pub mod fixing
