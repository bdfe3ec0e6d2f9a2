mod Limits
mod Members
mod Room
mod Sources
mod Within
