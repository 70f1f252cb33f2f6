-- What a run that listens prints is a log of entries.
pub mod Copies
pub mod Moments
pub mod Runs
pub mod Texts
