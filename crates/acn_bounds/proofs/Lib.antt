-- for acn_packing, acn_plain and acn_stream_laws
pub mod Lying
