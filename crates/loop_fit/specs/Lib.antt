-- Definitions of this crate.
pub mod Source
pub mod Align
pub mod Plan
pub mod Fit
pub mod Segments
