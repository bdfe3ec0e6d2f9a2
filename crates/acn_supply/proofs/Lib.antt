-- for acn_stream and acn_route
pub mod Moving
-- for acn_stream
pub mod Pieces
mod Windows
