pub mod Walked
pub mod Modules
pub mod Demand
pub mod Refuted
