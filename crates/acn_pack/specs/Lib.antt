pub mod Packs
pub mod Parts
pub mod Sounds
pub mod Words
