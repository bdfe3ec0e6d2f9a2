-- for acn_index and acn_world
pub mod Leading
mod Ways
