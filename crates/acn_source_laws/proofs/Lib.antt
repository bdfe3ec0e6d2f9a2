mod Lists
mod Inside
mod Kept
mod OfFiles
mod Listed
