pub mod PlaceMoments
pub mod Walk
