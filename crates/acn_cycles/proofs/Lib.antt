mod Lists
mod Places
-- for acn_names
pub mod Assigned
mod Transport
