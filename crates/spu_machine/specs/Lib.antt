-- Definitions of this crate, and the laws that the decoder keeps.
pub mod Spu
pub mod Spelling
pub mod Predicted
pub mod Rows
pub mod Boxes
pub mod Image
pub mod Floors
pub mod SpuRules
pub mod Laws
