mod Before
mod NamedUse
