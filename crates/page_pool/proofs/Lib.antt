pub mod Lending
pub mod Places
pub mod Values
pub mod WrittenLaws
pub mod GatheredLaws
pub mod Growing
pub mod Seen
