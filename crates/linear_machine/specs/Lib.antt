pub mod Linear
pub mod Samples
pub mod Nearest
pub mod Laws
