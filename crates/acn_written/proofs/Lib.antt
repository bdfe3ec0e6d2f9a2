mod Noted
mod Passed
-- for acn_leaf_laws
pub mod Within
