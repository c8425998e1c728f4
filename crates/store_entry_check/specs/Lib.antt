pub mod Fitting
pub mod EntriesHold
pub mod Kinds
pub mod FromBytes
pub mod Weights
