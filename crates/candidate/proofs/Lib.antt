pub mod Cutting
pub mod Picking
