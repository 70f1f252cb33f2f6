-- Lemmas that several proofs cite.
pub mod lines
pub mod log
pub mod Walks
