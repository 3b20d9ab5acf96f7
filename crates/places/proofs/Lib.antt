pub mod Exact
pub mod Few
pub mod Listings
pub mod Meets
pub mod Rises
pub mod Weighed
pub mod Words
pub mod Earlier
