pub mod Ending
pub mod Plan
pub mod Reading
pub mod Read
pub mod Steps
pub mod Promise
pub mod Front
