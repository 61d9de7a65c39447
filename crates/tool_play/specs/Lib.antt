pub mod Play
pub mod Played
