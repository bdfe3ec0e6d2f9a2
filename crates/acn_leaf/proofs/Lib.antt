-- for acn_well_formed
pub mod Blocks
mod CodeLengths
mod Differ
mod NearLines
mod NumParts
mod Pairs
-- for acn_leads
pub mod Patterns
mod Rising
mod Sides
mod Sizes
mod Spelled
mod TableRules
