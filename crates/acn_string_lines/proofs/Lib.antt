mod BinaryTexts
mod DigitPairs
mod HexTexts
mod LetterTexts
-- for acn_transcode
pub mod Outcomes
mod SevenTexts
mod SizesRead
