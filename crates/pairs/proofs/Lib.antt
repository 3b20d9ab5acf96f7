pub mod Puts
pub mod Bytes
pub mod Means
pub mod Says
