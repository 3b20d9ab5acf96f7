pub mod Reads
pub mod Codes
