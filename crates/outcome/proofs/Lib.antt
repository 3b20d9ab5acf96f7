pub mod Accepted
pub mod Places
pub mod Pinned
pub mod Full
pub mod Few
pub mod Earlier
pub mod Lent
