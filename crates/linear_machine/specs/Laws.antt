-- What follows for every linear decoder. The proofs stand here since the laws of decoders cite them, and no definition may cite proofs/.
pub mod Codes
pub mod Steps
pub mod Outcomes
pub mod FloorTruth
