pub mod Around
pub mod Bases
pub mod Finding
pub mod Behind
pub mod Laws
pub mod ledger
