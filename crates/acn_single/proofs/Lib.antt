mod Here
mod Listing
mod Octets
-- ranges in order: for acn_extremes
-- for acn_extremes
pub mod Ordered
mod Rules
mod Seeing
mod Told
-- the parts of tuples whose types are definitions: for acn_extremes
-- for acn_extremes
pub mod Tuples
-- fields and alternatives level by level: for acn_extremes
-- for acn_extremes
pub mod Views
