pub mod Most
pub mod Tests
pub mod Turns
pub mod Walked
pub mod Grown
