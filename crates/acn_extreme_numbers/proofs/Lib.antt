mod Changes
mod Covering
mod Least
mod Parts
mod Picking
mod Stepping
