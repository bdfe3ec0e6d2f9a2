mod Braces
mod Entries
mod FieldKinds
mod Kept
mod Differ
mod Fit
mod Joined
