pub mod ShownLines
pub mod Telling
pub mod Words
