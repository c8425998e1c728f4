pub mod EntriesListed
pub mod HeadersListed
pub mod Light
pub mod NameOrder
pub mod LightPasses
pub mod EntryTests
pub mod CheckWalk
