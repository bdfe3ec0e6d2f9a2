pub mod Determinants
pub mod Spots
