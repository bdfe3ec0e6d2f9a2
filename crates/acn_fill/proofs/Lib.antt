mod Spots
mod Changes
mod Pools
mod Few
mod Tied
mod Own
