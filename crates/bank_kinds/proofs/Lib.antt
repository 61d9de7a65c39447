pub mod OutputLaws
pub mod FittedLaws
pub mod ReadSegments
pub mod CertifiedBounds
