pub mod CellFaults
pub mod SomeLegal
pub mod Tallied
pub mod Certifying
pub mod Heard
pub mod Shaped
pub mod Tracks
pub mod Frames
