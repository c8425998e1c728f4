pub mod Split
pub mod Lines
pub mod SplitUtf8
