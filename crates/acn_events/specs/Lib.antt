pub mod Event
pub mod Events
pub mod Laws
pub mod Located
pub mod Marks
pub mod Steps
