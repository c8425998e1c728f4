pub mod HeadersNamed
