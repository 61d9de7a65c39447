pub mod Worth
pub mod Searched
pub mod Lists
pub mod Walks
pub mod Keyed
