pub mod Explaining
pub mod Texts
