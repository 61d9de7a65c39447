pub mod Faults
pub mod Walking
pub mod FrameLaws
pub mod Spelling
pub mod Spelled
pub mod WalkAgain
pub mod FormatAgain
pub mod ReadAgain
