pub mod Ends
pub mod Numbers
pub mod Places
pub mod Tables
pub mod Free
pub mod Items
