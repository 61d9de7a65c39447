pub mod Playings
pub mod Recovered
pub mod Decompiled
pub mod Heard
