pub mod Extreme
pub mod Told
pub mod Ways
