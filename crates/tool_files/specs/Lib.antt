pub mod Source
pub mod Sources
pub mod Ready
