pub mod MessageChecks
pub mod GroupEdits
pub mod CallExits
