pub mod Classes
pub mod Standing
pub mod Constrained
pub mod Braced
pub mod Named
pub mod Arguments
pub mod Paths
