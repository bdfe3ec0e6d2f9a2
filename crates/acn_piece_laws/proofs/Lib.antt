mod Cuts
mod Slots
mod Telling
