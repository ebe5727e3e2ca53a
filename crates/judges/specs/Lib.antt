pub mod Table
pub mod Spelled
pub mod Sets
pub mod Rule
pub mod Chained
pub mod Kept
pub mod Driver
pub mod Whole
