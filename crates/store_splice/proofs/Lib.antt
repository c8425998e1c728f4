pub mod Answered
pub mod Plain
pub mod Splicing
