pub mod Nodes
pub mod Paths
pub mod Reach
pub mod Counts
pub mod Rows
