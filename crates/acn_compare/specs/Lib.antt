pub mod Accepts
pub mod Judging
pub mod Laws
pub mod Rows
pub mod Tests
pub mod Texts
