-- for acn_tree_laws
pub mod Lists
-- for acn_tree_laws
pub mod Once
mod Standing
mod Listed
mod Fine
