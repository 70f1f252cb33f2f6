-- Lemmas that several proofs cite.
pub mod Character
pub mod Class
pub mod Each
pub mod Examples
pub mod OneSpelling
pub mod Packed
pub mod Place
pub mod Reading
pub mod SilentCombinations
pub mod Spelling
pub mod Table
pub mod Word
pub mod WordCounts
