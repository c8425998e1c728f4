pub mod ClearEnds
pub mod LastChar
pub mod LostEnds
pub mod ShortEnds
pub mod Stripping
pub mod WhiteTests
