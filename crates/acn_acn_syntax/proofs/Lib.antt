-- for acn_acn_parse, acn_mentions and acn_repeated
pub mod Views
-- for acn_acn_parse
pub mod Back
