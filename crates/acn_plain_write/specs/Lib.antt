pub mod Adds
pub mod Home
pub mod Ready
