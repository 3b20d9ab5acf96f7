pub mod Spans
pub mod Keeps
pub mod Parts
pub mod Names
pub mod Trees
pub mod Mapped
pub mod Chosen
