-- for acn_mentions, acn_repeated, acn_set_elements and acn_constraint
pub mod Views
-- for acn_asn_types
pub mod SetTokens
-- for acn_asn_types
pub mod TypeTokens
