pub mod ArgumentPlaces
pub mod ArgumentEnds
pub mod CallsIn
pub mod RunSteps
pub mod Examples
