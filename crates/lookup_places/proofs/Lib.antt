pub mod EntryPlaces
pub mod Fronts
pub mod HeaderPlaces
pub mod PlacesExits
pub mod Laid
pub mod NamedSpots
pub mod AddressPlace
pub mod There
