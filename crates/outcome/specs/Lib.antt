pub mod FullTable
pub mod Outcome
pub mod Earlier
