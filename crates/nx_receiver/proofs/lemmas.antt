-- Lemmas that several proofs cite.
pub mod chain
pub mod listening
pub mod receiver
pub mod state
