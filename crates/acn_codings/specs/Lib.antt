pub mod Codings
pub mod Drawing
pub mod Items
pub mod Left
pub mod Literals
pub mod Tables
