mod Arounds
mod Found
mod Refused
mod Due
mod Once
