mod Abandoned
mod Asking
mod Breaches
mod Buffers
mod Endings
mod FrameLists
mod Frames
-- for acn_pack
pub mod Joining
mod LeafLists
mod LowRuns
mod Numbers
mod PlainCodes
mod Puts
mod States
mod Tables
