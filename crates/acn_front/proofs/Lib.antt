-- for acn_commands: grammars of types, one more behind the others
pub mod Grown
mod OfSources
mod Excluding
