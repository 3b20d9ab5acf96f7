pub mod Packs
pub mod PacksPlaces
pub mod Plain
