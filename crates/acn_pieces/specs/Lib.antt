pub mod CanWalk
pub mod Kinds
pub mod Laws
pub mod Pieces
pub mod Walking
