pub mod RunLoop
pub mod CallRuns
