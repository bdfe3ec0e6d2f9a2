mod Characters
-- for acn_lines and acn_string_lines
pub mod Digits
mod Leaves
-- for acn_lines
pub mod Pieces
mod Runs
mod Strings
mod Tables
