pub mod Cards
pub mod Decls
pub mod Fns
pub mod Here
