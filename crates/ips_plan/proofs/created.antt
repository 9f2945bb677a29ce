mod Nothing
mod First
mod Bare
mod Making
