-- Lemmas that several proofs cite.
pub mod Examples
pub mod copies
pub mod finder
pub mod headers
pub mod messages
pub mod moments
