pub mod Checked
pub mod Facts
pub mod First
pub mod Order
pub mod Program
