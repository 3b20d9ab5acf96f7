pub mod Pairs
pub mod Stored
pub mod Choice
pub mod Means
