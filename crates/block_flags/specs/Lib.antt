pub mod Flags
pub mod Last
pub mod Split
