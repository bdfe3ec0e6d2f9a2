pub mod Packets
pub mod Sizes
