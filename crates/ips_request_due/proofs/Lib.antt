mod Paths
mod Meaning
mod Files
