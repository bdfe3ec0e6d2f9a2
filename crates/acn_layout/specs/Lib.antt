pub mod Codings
pub mod Layout
pub mod Walks
