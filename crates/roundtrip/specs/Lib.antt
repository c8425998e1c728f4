pub mod Clauses
pub mod Loss
