pub mod Cuts
pub mod Making
pub mod Stretches
