-- for acn_check
pub mod AlternativeRows
mod Blocks
mod HeldRuns
mod KeptRuns
-- for acn_check
pub mod Listed
mod RangeSteps
mod SeenRuns
mod TallyRuns
mod WellFormed
