pub mod Adds
pub mod Holds
pub mod Settles
