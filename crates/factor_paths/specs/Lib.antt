pub mod Mapping
pub mod PathsVisitor
pub mod Apply
pub mod Walk
pub mod LookUp
pub mod Collects
