pub mod Counts
pub mod DigitReads
pub mod DigitWrites
pub mod EndedReads
pub mod FixedReads
pub mod Limits
pub mod Pieces
pub mod Reads
