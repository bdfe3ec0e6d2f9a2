pub mod Begins
pub mod Leads
