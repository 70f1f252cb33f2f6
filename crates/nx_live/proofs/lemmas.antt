-- Lemmas that several proofs cite.
pub mod LentRow
pub mod Rows
pub mod FamilyValues
pub mod HandleValues
pub mod PlainValues
pub mod Calls
pub mod CombiningValues
pub mod Freed
pub mod Answering
