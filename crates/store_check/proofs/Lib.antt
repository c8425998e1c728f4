pub mod HeldParts
pub mod MessageHeld
pub mod HeaderHeld
pub mod HeldDecided
pub mod HeldCases
