pub mod Table
pub mod Chars
pub mod Shapes
pub mod Scalars
pub mod Replaced
pub mod WhiteSpace
pub mod Trim
