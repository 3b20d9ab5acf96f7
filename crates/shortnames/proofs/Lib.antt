pub mod Tests
pub mod Wraps
