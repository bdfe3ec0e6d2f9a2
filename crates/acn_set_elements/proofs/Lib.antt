-- for acn_constraint
pub mod Bases
mod Ones
-- for acn_constraint and acn_defaults
pub mod Texts
mod FoundNumbers
