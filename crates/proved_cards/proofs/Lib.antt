pub mod Claim
pub mod Held
