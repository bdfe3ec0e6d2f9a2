mod Asking
mod Coming
mod Heard
-- for the walk that packs
pub mod Joins
mod Judging
-- for acn_writer and acn_event_limits
pub mod Keeping
mod Later
mod Located
mod Packets
mod Passing
mod Right
mod Runs
mod Showing
mod Small
mod Spelling
-- for acn_writer and acn_event_limits
pub mod Standing
mod Tested
mod Writing
