mod Along
mod FirstListed
mod Noted
