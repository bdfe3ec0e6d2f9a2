mod Turns
mod Telling
