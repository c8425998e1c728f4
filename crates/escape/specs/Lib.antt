pub mod Bare
pub mod Forms
pub mod Values
