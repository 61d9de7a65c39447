pub mod LeastMore
pub mod Later
pub mod Rows
pub mod Steps
pub mod Looks
pub mod Alike
pub mod Capped
