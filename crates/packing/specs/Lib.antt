pub mod Packed
pub mod PackedPlaces
