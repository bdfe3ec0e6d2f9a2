mod LineTexts
mod Measuring
