pub mod Gathers
pub mod Tabled
