mod History
mod Unsided
mod Unlost
mod Steps
mod Told
mod Seen
