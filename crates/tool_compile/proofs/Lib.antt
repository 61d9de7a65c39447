pub mod BankSteps
pub mod CompileSteps
pub mod CompiledSteps
pub mod MakeSteps
