mod BeginsLaw
-- for acn_check
pub mod LeadLaw
