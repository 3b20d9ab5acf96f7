pub mod Lawful
pub mod Weights
