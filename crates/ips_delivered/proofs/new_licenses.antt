mod Told
mod Pairs
