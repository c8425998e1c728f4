pub mod SectionLines
pub mod Heads
pub mod TextLines
