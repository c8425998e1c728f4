pub mod HeaderBounds
pub mod ParamSplice
pub mod HeaderChecks
pub mod ParamSizes
pub mod HeaderExits
