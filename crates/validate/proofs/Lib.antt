pub mod Chains
pub mod EmptyText
pub mod Searching
