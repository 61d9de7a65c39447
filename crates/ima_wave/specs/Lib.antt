pub mod Format
pub mod Heads
pub mod Reading
pub mod Written
pub mod Files
