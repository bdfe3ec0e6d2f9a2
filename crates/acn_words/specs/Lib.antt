pub mod Names
pub mod Files
pub mod Routes
pub mod Requests
pub mod Faults
pub mod View
pub mod Asking
pub mod Questions
