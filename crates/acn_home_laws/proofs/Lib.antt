mod Rising
mod Inside
mod Enclosing
-- for acn_made_laws
pub mod Members
-- for acn_made_laws
pub mod Onward
-- for acn_made_laws
pub mod Unique
mod Below
mod Near
mod Ways
mod Homed
mod Ruled
