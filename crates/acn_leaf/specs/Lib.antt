pub mod Ends
pub mod Taken
pub mod Neighbours
pub mod Sides
