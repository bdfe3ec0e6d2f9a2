pub mod Gathered
pub mod Uses
pub mod Wanted
