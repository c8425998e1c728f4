pub mod Strings
pub mod Counts
pub mod CountLines
