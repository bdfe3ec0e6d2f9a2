pub mod Named
pub mod Conditions
pub mod Sized
pub mod Texts
pub mod Made
