pub mod Random
pub mod Digits
pub mod Tally
pub mod Trial
