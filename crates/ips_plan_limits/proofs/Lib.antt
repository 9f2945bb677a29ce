mod Searched
mod Named
