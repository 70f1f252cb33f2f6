-- Lemmas of the laws of watches that take sendings together.
pub mod Again
pub mod Chains
pub mod Example
pub mod Named
pub mod Whole
