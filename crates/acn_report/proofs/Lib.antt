mod Bounded
mod Children
mod HexTurns
mod Overlapping
-- for acn_layout, acn_compare and acn_warnings
pub mod Rooms
mod SlotLaw
-- for acn_layout and acn_warnings
pub mod Turns
