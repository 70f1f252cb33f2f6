-- Chains of runs.
pub mod Alone
pub mod Once
