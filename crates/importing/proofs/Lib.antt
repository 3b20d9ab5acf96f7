pub mod Pieces
pub mod Uses
pub mod Tests
