pub mod Headers
pub mod Modules
pub mod Whole
pub mod Laws
