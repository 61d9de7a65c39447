pub mod EntrySteps
pub mod DecompileSteps
pub mod EntryNames
pub mod FrontSteps
pub mod DecompiledSteps
