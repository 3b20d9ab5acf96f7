pub mod Enough
pub mod Own
