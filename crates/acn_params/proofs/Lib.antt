mod Along
mod Merged
mod Views
