pub mod Grows
