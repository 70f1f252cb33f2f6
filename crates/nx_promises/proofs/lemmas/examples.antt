-- The worked examples meet what is asked of them.
pub mod Again
pub mod AirFile
pub mod Chain
pub mod Channels
pub mod Emission
pub mod Repeats
pub mod Together
pub mod Worked
pub mod WorkedLog
