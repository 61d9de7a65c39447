pub mod NumberSteps
pub mod SplitSteps
pub mod SplitForms
pub mod GrammarSteps
pub mod WordSteps
