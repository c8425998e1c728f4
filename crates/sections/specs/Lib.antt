pub mod Block
pub mod Body
pub mod Cuts
pub mod Finding
pub mod Place
