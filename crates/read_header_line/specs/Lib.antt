pub mod Gathered
pub mod HeaderLine
