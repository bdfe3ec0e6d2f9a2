-- for acn_fill
pub mod Lists
-- for acn_fill
pub mod Steps
mod Fields
mod Walked
mod Turns
