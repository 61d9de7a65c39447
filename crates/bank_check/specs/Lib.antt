pub mod Cells
pub mod Proven
pub mod Tally
pub mod Failure
pub mod Shape
pub mod Stored
pub mod Errors
