-- An air file: what its lines say, how they are spelled, and how a run takes them.
pub mod AirFile
pub mod BitLines
pub mod Channels
pub mod LineReading
pub mod LineRuns
pub mod Lines
pub mod Scanner
