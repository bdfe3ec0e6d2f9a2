-- for acn_print, acn_stream and acn_route
pub mod Joined
mod Named
mod Counting
