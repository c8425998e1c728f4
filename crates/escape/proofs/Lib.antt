pub mod BareBytes
pub mod ByKind
pub mod FormAt
pub mod Overlapping
pub mod EscapeTurns
pub mod Units
pub mod ValueParts
