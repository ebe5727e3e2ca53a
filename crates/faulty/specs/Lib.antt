pub mod Telling
pub mod Halves
