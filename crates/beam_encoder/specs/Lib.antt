pub mod Near
pub mod Kept
pub mod Walk
pub mod Layers
pub mod Beam
