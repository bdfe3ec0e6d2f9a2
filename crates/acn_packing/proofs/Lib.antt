mod Halting
mod InFront
mod Packings
mod Wholes
