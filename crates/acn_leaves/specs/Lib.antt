pub mod Leaves
pub mod Ordered
pub mod Widths
pub mod View
