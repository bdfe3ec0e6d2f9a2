pub mod Slots
pub mod Listed
pub mod Bare
pub mod View
