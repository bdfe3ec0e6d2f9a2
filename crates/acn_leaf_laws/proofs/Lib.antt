-- for acn_item_laws
pub mod Options
mod Reasons
mod Standing
mod Patterns
mod Widths
mod Sets
mod Constrained
mod Left
mod Rules
mod Alignments
mod Nulls
mod Booleans
mod Sizes
mod Texts
mod Counted
mod Tables
mod Integers
mod IntegerSites
mod Ordering
mod Items
mod Enumerations
mod EnumerationSites
mod Forms
-- for acn_item_laws and acn_tree_laws
pub mod Repeats
