pub mod Sizes
pub mod Walked
pub mod Declared
pub mod Visited
pub mod Mapped
pub mod Bound
pub mod Least
pub mod Pairs
