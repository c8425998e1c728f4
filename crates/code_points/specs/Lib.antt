pub mod Edges
pub mod Ends
