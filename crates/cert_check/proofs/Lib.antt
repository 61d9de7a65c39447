pub mod Steps
pub mod Upward
pub mod CellByCell
pub mod LayerByLayer
pub mod Accept
pub mod Ready
pub mod Exact
pub mod Refused
