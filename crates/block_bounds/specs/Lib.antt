pub mod Outputs
pub mod Covers
pub mod Steps
