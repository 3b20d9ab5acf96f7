pub mod Passed
pub mod Uses
pub mod Beside
pub mod Ring
