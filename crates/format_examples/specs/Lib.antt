-- What documents 01 and 02 say of their rules by examples, as tables.
pub mod Specimens
pub mod ValueEnds
pub mod Refusing
pub mod SecondLines
pub mod Rules
