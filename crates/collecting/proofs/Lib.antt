pub mod Going
pub mod Module
