pub mod Names
pub mod Reading
pub mod Kinds
pub mod Files
pub mod Laws
