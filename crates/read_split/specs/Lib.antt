pub mod TextJudged
pub mod BodyPlaces
