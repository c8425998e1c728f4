pub mod Fronts
pub mod NamedPlaces
pub mod Rows
pub mod Spots
pub mod Standing
