pub mod Stays
pub mod Tally
pub mod Witness
pub mod Runs
pub mod Nested
pub mod Stored
pub mod Steady
pub mod Reduces
mod Memory
mod Laws
pub mod StateExamples
