-- Lemmas that several proofs cite.
pub mod devices
pub mod emissions
pub mod line_runs
pub mod lines
pub mod packed
pub mod texts
