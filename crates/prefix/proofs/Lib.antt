pub mod Selections
pub mod Prefixes
pub mod Nested
pub mod Long
