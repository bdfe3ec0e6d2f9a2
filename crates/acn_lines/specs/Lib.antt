pub mod Filled
pub mod Keys
pub mod Names
pub mod Order
pub mod Spots
pub mod Taken
