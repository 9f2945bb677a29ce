mod Runs
mod Wider
mod Resumed
