-- for acn_unpack and acn_step_breach: that the steps of a root say it, and how many there are
pub mod Backs
mod Everywhere
mod Few
mod ItemNames
mod Itemizes
mod Lists
-- for acn_pack, acn_unpack, acn_step_breach and acn_step_fields: what made steps keep
pub mod Mades
-- for acn_pack, acn_unpack, acn_step_breach and acn_step_fields: one level of what steps say
pub mod Marks
mod Nests
mod Pieces
mod Puts
