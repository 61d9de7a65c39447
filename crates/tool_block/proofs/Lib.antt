pub mod ReadSamples
pub mod ZeroBlock
pub mod BlockSteps
