pub mod Reasons
pub mod Walk
pub mod View
pub mod Seen
