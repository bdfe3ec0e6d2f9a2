mod Sizes
mod Following
-- for acn_value_laws and acn_names
pub mod ValueSteps
-- for acn_world and acn_names
pub mod ChainSteps
-- for acn_world and acn_slots
pub mod KeyedLaws
-- for acn_world
pub mod Mapped
mod ImportJumps
mod LastValues
-- for acn_world
pub mod LastLinks
mod Numbered
-- for acn_value_laws, acn_cycles and acn_names
pub mod Left
mod ImportWays
mod Bounded
