mod DecimalDigits
pub mod Puts
