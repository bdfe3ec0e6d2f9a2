pub mod formers
pub mod Names
pub mod Bits
pub mod Ranges
pub mod Widths
pub mod Joining
pub mod Meeting
pub mod Unions
