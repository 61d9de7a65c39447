pub mod Rows
pub mod Paths
pub mod Bound
pub mod Guards
pub mod Ladder
pub mod Windows
pub mod Flat
pub mod Searching
