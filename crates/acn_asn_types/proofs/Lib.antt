-- for acn_asn_parse
pub mod ValueLaws
mod SetsFound
mod SetsAgain
mod Chains
-- for acn_asn_parse
pub mod ListLaws
mod BaseLaws
-- for acn_asn_parse
pub mod SimpleLaws
-- for acn_asn_parse
pub mod TypesFound
-- for acn_asn_parse
pub mod TypesAgain
