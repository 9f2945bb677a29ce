mod Opened
mod Directories
mod Created
mod Carried
mod Told
mod Said
mod Recoveries
mod Nexts
mod Performed
mod Unbegun
mod Listed
mod Never
pub mod Leaving
pub mod Exclusive
