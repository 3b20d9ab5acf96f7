pub mod Copies
pub mod Taken
