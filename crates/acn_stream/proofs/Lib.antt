mod Ending
mod Feeds
-- for acn_stream_laws
pub mod Joining
mod LinesGiving
mod LinesPassing
mod Taking
