pub mod Along
pub mod Ring
pub mod Empty
