mod CaseTurns
-- for acn_step_fields: one field of steps in front of others
pub mod FieldTurns
-- for acn_step_fields: fields and alternatives by their index, and the room that each has
pub mod Inners
-- for acn_step_fields and acn_packing: from a step to what its node is
pub mod Levels
-- for acn_step_fields: that each path can be written down
pub mod Rooms
mod Tops
mod Turns
