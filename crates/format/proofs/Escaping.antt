pub mod Unescape
pub mod Escape
pub mod EndForm
pub mod ValueText
