-- for acn_report, acn_layout, acn_explain and acn_source_report
pub mod Joining
