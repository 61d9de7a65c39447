-- Definitions of this crate.
pub mod Layout
pub mod Part
pub mod Spelling
pub mod Header
pub mod Sizes
pub mod Entry
pub mod Reading
pub mod Stored
pub mod EntryTracks
