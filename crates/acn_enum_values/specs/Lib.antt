pub mod EnumValues
pub mod Keyed
pub mod View
