pub mod Backslash
pub mod Reads
