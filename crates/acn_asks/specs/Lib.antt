pub mod Heard
pub mod Judged
pub mod Kept
pub mod Moments
