mod Merged
mod Linking
mod Ordered
mod Drafted
