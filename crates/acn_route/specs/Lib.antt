pub mod Adding
pub mod Counting
pub mod Laws
pub mod Listed
pub mod Ready
pub mod Routing
pub mod Space
pub mod Steps
