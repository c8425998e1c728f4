pub mod ContentsHeld
pub mod Counting
pub mod LoneHeader
pub mod NthNamed
pub mod TypeAndBody
