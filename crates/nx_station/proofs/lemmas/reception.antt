-- What is received of an emission, where its words are damaged within bounds.
pub mod PathCounts
pub mod PathExamples
pub mod PathLaws
pub mod PathPhasing
pub mod PathPositions
pub mod PathUndamaged
pub mod PathWords
pub mod Sendings
pub mod WordWeights
