pub mod SourceSteps
pub mod RoomSteps
pub mod Pairs
