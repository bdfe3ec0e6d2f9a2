mod Flat
mod Forms
mod Walking
