pub mod Groups
pub mod Passing
pub mod Stored
