pub mod Offsets
pub mod Declared
