-- Lemmas of the law of a log that was shortened.
pub mod Acting
pub mod Bounds
pub mod Choosing
pub mod Heard
pub mod Knowing
pub mod Ordered
pub mod Printing
pub mod Starting
pub mod Stopping
