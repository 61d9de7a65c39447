pub mod Numbers
pub mod PlayWords
pub mod MakeWords
pub mod BoundWords
pub mod DecompileWords
pub mod Words
pub mod Grammar
pub mod Places
