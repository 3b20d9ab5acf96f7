pub mod Tests
pub mod Several
