mod Ascending
mod Back
-- for acn_lines
pub mod CanReadLaw
mod DistinctLaw
-- for acn_printed, acn_string_lines and acn_transcode
pub mod Escapes
-- for acn_lines
pub mod FieldLists
mod Names
mod Objects
mod Plain
mod RoundTripLaw
mod Said
-- for acn_lines and acn_stream_laws
pub mod ShapedLaw
mod SizeLaw
mod Steps
-- for acn_lines and acn_transcode
pub mod Texts
mod Turns
