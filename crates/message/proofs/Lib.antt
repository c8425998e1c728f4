pub mod BodyStored
pub mod Subjects
pub mod Wrapping
