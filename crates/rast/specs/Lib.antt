pub mod Path
pub mod Final
pub mod Operation
pub mod Mod
pub mod Fold
pub mod Replace
pub mod Visitor
pub mod Replacer
