pub mod Back
pub mod Laws
pub mod Made
pub mod Program
pub mod Runs
pub mod Steps
