-- Lemmas that several proofs cite.
pub mod Examples
pub mod hunting
pub mod states
pub mod words
