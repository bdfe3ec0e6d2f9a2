-- for acn_moments
pub mod Opens
-- for acn_moments
pub mod Steps
