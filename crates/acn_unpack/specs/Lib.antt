pub mod Items
pub mod Keeps
pub mod Rests
