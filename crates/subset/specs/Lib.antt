pub mod Parts
pub mod Row
pub mod Says
pub mod Laws
pub mod Examples
