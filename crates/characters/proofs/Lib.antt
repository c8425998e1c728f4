pub mod Coding
pub mod Utf8End
