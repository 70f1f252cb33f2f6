-- A kept log read as such.
pub mod Damage
pub mod Once
pub mod Runs
pub mod Standing
pub mod Steps
