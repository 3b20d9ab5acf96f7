pub mod Operations
pub mod Hashes
pub mod Bases
