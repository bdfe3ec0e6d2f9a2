pub mod CheckTexts
pub mod Digits
pub mod Names
pub mod Parts
pub mod Slots
pub mod Texts
pub mod Walks
