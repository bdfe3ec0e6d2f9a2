pub mod Laws
pub mod Meanings
