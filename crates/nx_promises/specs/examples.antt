-- Worked examples, from the elements to the log.
pub mod Again
pub mod AirFile
pub mod Chain
pub mod Channels
pub mod Emission
pub mod Repeats
pub mod Together
