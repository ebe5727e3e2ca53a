pub mod Listed
pub mod Shown
mod Places
mod Laws
pub mod Stages
