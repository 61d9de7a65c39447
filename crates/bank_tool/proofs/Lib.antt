pub mod GivenSteps
pub mod CommandSteps
