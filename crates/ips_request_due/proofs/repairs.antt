mod Due
mod Lawful
mod Seen
