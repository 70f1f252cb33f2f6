-- Air files, from their lines to the log.
pub mod Ends
pub mod From
pub mod Lines
pub mod Listener
pub mod Moments
pub mod Once
pub mod Runs
pub mod Stops
pub mod Taken
pub mod Unlogged
