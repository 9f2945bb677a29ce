mod Gathered
mod Names
