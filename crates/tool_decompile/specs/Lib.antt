pub mod EntryLines
pub mod EntryFiles
pub mod Decompile
