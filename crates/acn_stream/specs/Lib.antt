pub mod Decoding
pub mod Encoding
pub mod Passing
pub mod Recording
pub mod Steps
