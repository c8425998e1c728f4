pub mod Holding
pub mod Decoding
