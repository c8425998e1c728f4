pub mod Counted
pub mod NthElement
pub mod NthPlace
