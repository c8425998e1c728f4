pub mod Laying
pub mod EntrySplice
pub mod MessageBounds
pub mod GroupParts
