pub mod Listing
pub mod Sound
