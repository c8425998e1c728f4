pub mod LinesLoop
pub mod Outcomes
pub mod HeaderSectionLine
pub mod ReadStores
pub mod BodyLast
pub mod Endings
pub mod NeverShort
