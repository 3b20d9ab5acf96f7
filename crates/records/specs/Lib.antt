pub mod Record
pub mod Kinds
pub mod Reading
pub mod Named
pub mod Canonical
