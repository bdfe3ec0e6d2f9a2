mod EndSteps
-- for acn_gather_laws
pub mod CanMeasureLaw
