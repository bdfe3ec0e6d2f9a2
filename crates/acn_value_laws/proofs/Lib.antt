mod Counted
mod BothWays
