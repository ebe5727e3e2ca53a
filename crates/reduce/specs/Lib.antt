pub mod State
pub mod Start
pub mod Own
pub mod Entry
pub mod Examples
pub mod StateExamples
