pub mod Best
pub mod Codes
pub mod Facts
pub mod Laws
pub mod OneUse
pub mod Reach
pub mod Single
