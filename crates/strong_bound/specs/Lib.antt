pub mod Counted
pub mod Quiet
