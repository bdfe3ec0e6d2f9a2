mod Pieces
-- for acn_run
pub mod Gaining
mod Refusing
mod Stuck
mod Whole
mod LineCuts
mod Writings
mod Octets
mod Lines
mod Naming
