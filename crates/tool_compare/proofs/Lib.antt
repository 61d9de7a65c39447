pub mod StoredReads
pub mod ComparedSteps
pub mod CheckReads
pub mod CheckSteps
pub mod CheckedSteps
pub mod BoundSteps
pub mod BoundedSteps
