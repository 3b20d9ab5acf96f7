pub mod Held
pub mod Laws
pub mod Walk
pub mod Rows
pub mod Turns
pub mod Whole
