-- Lemmas that several proofs cite.
pub mod Answers
pub mod HandleValues
pub mod LooseValues
pub mod Opening
pub mod Signal
pub mod State
