pub mod Mirror
pub mod View
pub mod Values
pub mod Spelling
pub mod Trees
pub mod Modules
