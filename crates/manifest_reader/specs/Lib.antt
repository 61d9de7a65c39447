pub mod Words
pub mod Keys
pub mod Bank
pub mod Sample
pub mod Stored
pub mod Names
pub mod Meaning
pub mod Ranges
