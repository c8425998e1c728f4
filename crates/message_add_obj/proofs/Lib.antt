pub mod LoneSizes
pub mod Adding
