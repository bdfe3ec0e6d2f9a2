mod Barring
mod BestLength
mod BestMeets
mod BestReach
mod BestSettled
mod BestWritten
mod Chosen
-- for acn_extreme_numbers
pub mod Codes
mod Finding
mod Homed
mod Numbers
mod OneUse
mod Parts
mod Reaching
mod Ready
mod Scopes
mod Sizes
mod SpanOrder
mod Tuples
mod Weights
