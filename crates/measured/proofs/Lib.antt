pub mod Uses
pub mod Roomy
pub mod Sound
