pub mod Numbers
pub mod Slices
pub mod Alike
pub mod Within
pub mod Less
