pub mod Make
pub mod Compile
pub mod Stored
pub mod Compiled
