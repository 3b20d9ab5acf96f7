pub mod Tests
pub mod Lists
pub mod Choices
pub mod Says
