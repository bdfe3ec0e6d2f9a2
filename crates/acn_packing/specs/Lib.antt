pub mod Packed
pub mod Tries
