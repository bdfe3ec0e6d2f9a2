mod Adding
mod Homes
mod Packets
mod Places
mod ReadyLaw
mod Walk
