pub mod Keeps
pub mod Bound
pub mod Inner
pub mod Contents
pub mod States
pub mod Each
pub mod Applies
pub mod Outermost
