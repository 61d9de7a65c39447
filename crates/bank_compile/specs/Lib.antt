pub mod Segment
pub mod Sample
pub mod Known
pub mod Bank
pub mod Told
