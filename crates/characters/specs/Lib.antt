pub mod Coded
pub mod Lengths
