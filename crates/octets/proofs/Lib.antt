pub mod Comparing
pub mod Find
pub mod ByteBlock
pub mod Paste
pub mod Written
pub mod Shifts
