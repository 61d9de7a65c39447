pub mod Written
pub mod Ownership
pub mod Pages
