-- Positions, each sent in two words, and what is taken of them.
pub mod Aligned
pub mod Emission
pub mod Pairing
