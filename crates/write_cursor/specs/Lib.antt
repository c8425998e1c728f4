pub mod Wrote
pub mod StoredMessage
