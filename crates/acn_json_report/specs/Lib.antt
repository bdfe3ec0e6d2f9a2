pub mod JsonTexts
