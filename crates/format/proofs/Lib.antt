-- The theorems about the definitions, each resting on those above it.
pub mod Lists
pub mod Steps
pub mod Rulesets
pub mod Answers
pub mod Characters
pub mod Escaping
pub mod Splitting
pub mod Messages
pub mod Texts
pub mod Begun
pub mod Exact
pub mod Demand3
pub mod SecondReading
pub mod Addresses
pub mod Computing
