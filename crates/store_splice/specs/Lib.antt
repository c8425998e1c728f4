pub mod NewEntries
pub mod Notations
pub mod Spliced
