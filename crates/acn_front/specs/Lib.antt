pub mod Grammars
pub mod Loaded
pub mod Laws
