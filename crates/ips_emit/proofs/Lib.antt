pub mod Adding
mod Listed
