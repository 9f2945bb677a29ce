pub mod Above
pub mod Defined
pub mod Firsts
pub mod Lengths
pub mod Missing
pub mod FirstFree
pub mod Had
pub mod Ordered
