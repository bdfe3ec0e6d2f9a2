mod CountedCodes
mod DigitCodes
mod DigitLemmas
mod DigitPuts
mod EndedCodes
-- for acn_text
pub mod EndedLemmas
-- for acn_text
pub mod FixedCodes
mod Keys
mod LeafBounds
mod Lists
mod MostLemmas
mod Orders
mod Permitted
-- for acn_text and acn_writer
pub mod PieceLemmas
mod SaidLemmas
mod SignedCodes
-- for acn_text and acn_writer
pub mod Writings
