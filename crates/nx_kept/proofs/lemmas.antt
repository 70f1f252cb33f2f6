-- Lemmas that several proofs cite.
pub mod Calls
pub mod KeptLaws
pub mod Pieces
pub mod Putting
pub mod Repairing
pub mod Scanning
pub mod Settling
pub mod Stages
pub mod Staying
pub mod Steps
