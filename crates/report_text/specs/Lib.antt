pub mod Report
pub mod Listed
pub mod Fault
