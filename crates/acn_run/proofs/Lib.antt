mod Promise
mod Ended
mod Completing
mod Excluded
mod Stopping
mod Lining
mod Unfailed
mod Answering
