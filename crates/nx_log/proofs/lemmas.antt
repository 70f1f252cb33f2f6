-- Lemmas that several proofs cite.
pub mod beginnings
pub mod kept
pub mod printed
pub mod reader
pub mod reading
pub mod runs
pub mod texts
