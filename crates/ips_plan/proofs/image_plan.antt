mod Silent
mod Spoken
mod Asked
mod Licenses
mod Beyond
