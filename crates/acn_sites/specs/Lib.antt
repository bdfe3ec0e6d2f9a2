pub mod Places
pub mod Sites
pub mod Attributes
pub mod View
