pub mod Outputs
pub mod Predictions
