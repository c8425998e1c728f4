pub mod OfHeld
