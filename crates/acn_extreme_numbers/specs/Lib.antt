pub mod Picked
pub mod Tries
