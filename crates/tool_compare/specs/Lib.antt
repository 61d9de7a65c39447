pub mod Banks
pub mod Compared
pub mod Check
pub mod Checked
pub mod Floor
pub mod Bound
pub mod Bounded
