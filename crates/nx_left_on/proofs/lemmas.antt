-- Lemmas that several proofs cite.
pub mod Acting
pub mod Bounds
pub mod Example
pub mod chains
pub mod combined
pub mod entries
pub mod reading
pub mod shortened
