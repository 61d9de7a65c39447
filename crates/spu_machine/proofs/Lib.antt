pub mod Pairs
pub mod Reading
pub mod Products
pub mod LevelLaws
pub mod NearCodes
pub mod Corners
