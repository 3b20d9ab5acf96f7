pub mod Rast
pub mod Fold
pub mod Replace
pub mod Visitor
pub mod Replacer
pub mod FactorPaths
pub mod Tree
