pub mod Lost
pub mod Firsts
pub mod Going
