pub mod Blamed
pub mod Named
