mod Kept
mod Entries
