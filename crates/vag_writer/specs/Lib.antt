-- Definitions of this crate.
pub mod Spelling
pub mod Reading
