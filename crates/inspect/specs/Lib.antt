pub mod Exhaustive
pub mod Inspector
pub mod Recorder
