pub mod Components
pub mod Found
