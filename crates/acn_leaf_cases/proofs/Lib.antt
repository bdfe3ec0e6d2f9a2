mod Breach
mod Fixed
mod OneSlot
