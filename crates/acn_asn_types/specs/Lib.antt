pub mod Values
pub mod Sets
pub mod Lists
pub mod Bases
pub mod Types
