pub mod Replay
pub mod Written
