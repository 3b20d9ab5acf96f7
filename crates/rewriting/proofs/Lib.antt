pub mod Bound
pub mod Lengths
pub mod Parts
pub mod Uses
pub mod Walks
