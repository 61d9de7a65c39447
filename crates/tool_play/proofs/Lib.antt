pub mod PlaySteps
