pub mod KeyLaws
pub mod Rows
pub mod Documents
pub mod NameLaws
pub mod Apart
pub mod Once
