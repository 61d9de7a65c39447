pub mod BlocksAgain
pub mod FilesAgain
pub mod ReadAgain
pub mod BadHeads
pub mod Sizes
