mod OneSummaries
mod Reading
mod Tallies
