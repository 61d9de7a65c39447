pub mod Rows
pub mod CertWords
pub mod FaultWords
pub mod Lines
