mod Bodies
mod Calls
-- for acn_piece_laws
pub mod CanWalkLaw
mod JoinedBits
-- for acn_piece_laws
pub mod Joining
mod PresenceSteps
mod Steps
mod Views
