-- for acn_repeated and acn_constraint
pub mod Joined
mod TypeMentions
