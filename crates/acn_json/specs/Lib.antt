pub mod Answers
pub mod Few
pub mod Kept
pub mod Lines
pub mod Reads
pub mod RoundTrip
pub mod Spots
