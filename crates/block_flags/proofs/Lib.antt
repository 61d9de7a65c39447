pub mod LastLaws
pub mod FlagLaws
pub mod SplitLaws
