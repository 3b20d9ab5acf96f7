pub mod Imports
pub mod Replaces
pub mod Rewrites
pub mod Shorts
