pub mod Samples
pub mod Block
