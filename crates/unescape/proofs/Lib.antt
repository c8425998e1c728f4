pub mod Hex
pub mod Escapes
pub mod Stretches
