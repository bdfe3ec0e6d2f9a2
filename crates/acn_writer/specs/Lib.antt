pub mod Answers
pub mod Contents
pub mod Ending
pub mod Halts
pub mod Leaves
pub mod Plain
pub mod Slots
