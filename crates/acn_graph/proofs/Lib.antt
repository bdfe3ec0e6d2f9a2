mod Lists
mod Ways
mod Searches
