-- for acn_plan and acn_transcode
pub mod Runs
mod Strips
mod Words
mod Leaves
