pub mod Homes
pub mod View
pub mod Laws
pub mod Joined
