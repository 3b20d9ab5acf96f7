pub mod Chooses
pub mod Picks
