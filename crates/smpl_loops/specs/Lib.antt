pub mod Loops
pub mod Sampler
