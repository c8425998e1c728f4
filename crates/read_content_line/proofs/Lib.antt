pub mod Typing
pub mod ContentLine
