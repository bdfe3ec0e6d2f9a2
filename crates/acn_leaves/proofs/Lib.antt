mod Least
mod Stable
