pub mod GivenBack
pub mod Commands
