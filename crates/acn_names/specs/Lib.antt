pub mod Few
pub mod Rounds
pub mod Standing
pub mod Laws
