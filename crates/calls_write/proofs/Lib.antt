mod BegunExits
mod SentExits
pub mod Trace
