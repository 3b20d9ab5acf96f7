pub mod Builders
pub mod Cards
