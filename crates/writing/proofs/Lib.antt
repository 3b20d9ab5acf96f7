pub mod Chain
pub mod Going
pub mod Pieces
pub mod Tests
