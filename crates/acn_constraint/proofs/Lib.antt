mod Agrees
mod Bases
mod Borderline
mod Firsts
mod Hulls
mod Judged
mod Serial
mod Stands
mod Steps
mod Unions
-- for acn_leaf_laws
pub mod Permitted
mod Shared
