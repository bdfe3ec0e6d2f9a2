pub mod AttributeReading
pub mod FieldReading
pub mod MapReading
pub mod WordReading
pub mod Laws
