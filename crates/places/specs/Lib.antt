pub mod Listing
pub mod Places
pub mod Spots
pub mod Earlier
