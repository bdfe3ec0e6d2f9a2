mod Calls
mod EndedReads
mod Ends
-- for acn_events, acn_writer and acn_string_lines
pub mod Fine
mod Listing
mod Marks
mod Numbered
mod Places
mod SizedReads
mod Spelled
mod Windows
mod Written
