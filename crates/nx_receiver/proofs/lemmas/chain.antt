-- Chains of runs.
pub mod Left
pub mod Moments
pub mod Printing
pub mod Runs
