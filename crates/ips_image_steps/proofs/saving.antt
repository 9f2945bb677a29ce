mod Last
mod Apart
mod Named
mod Gathered
mod Emission
mod Shown
