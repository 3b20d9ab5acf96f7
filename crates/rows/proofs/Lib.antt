pub mod Codes
pub mod Fields
pub mod Names
pub mod Runs
pub mod Tables
