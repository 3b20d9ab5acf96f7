pub mod Passes
pub mod Operations
