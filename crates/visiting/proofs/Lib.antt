pub mod Marks
pub mod Paths
pub mod Own
