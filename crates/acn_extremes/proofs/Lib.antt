mod Endings
mod Placing
mod Rules
mod Runs
mod Told
mod Views
