pub mod Unrolling
pub mod Quotients
pub mod AlignLaws
pub mod PlanFacts
pub mod RoundLaws
pub mod FitLaws
pub mod TargetLists
pub mod SegmentsCut
