pub mod Pairs
pub mod Reading
pub mod Fill
pub mod ZeroCosts
pub mod ZeroSums
pub mod PlainCodes
pub mod LevelLaws
pub mod PartAdding
