-- for acn_fold_laws and acn_leaf_laws
pub mod Apart
mod Drawn
-- for acn_fold_laws and acn_leaf_laws
pub mod FineFront
