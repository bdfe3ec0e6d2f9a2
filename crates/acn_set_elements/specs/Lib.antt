pub mod Material
pub mod Numbered
pub mod Stands
pub mod Written
