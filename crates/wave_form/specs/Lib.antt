pub mod Span
pub mod Heads
pub mod Walk
pub mod Format
pub mod Frames
pub mod Reading
pub mod Riff
pub mod Written
