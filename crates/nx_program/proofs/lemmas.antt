-- Lemmas that several proofs cite.
pub mod EachFound
pub mod Known
pub mod arguments
pub mod outcomes
pub mod queries
