-- On what the laws of what is printed stand: a trait's law may cite no file of proofs/.
pub mod AfterHeader
pub mod BehindHeader
pub mod CombinedLaws
pub mod EndedPositions
pub mod Ends
pub mod Heard
pub mod PlacedGrow
pub mod PositionsFor
pub mod ReadOn
