pub mod Tests
pub mod Names
pub mod Keeps
pub mod Chosen
pub mod Worked
