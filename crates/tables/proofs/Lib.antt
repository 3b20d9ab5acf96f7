pub mod Owner
pub mod Beside
