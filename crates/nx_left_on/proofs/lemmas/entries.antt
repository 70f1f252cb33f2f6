-- Entries that a memory keeps from watch to watch.
pub mod Climbing
pub mod Entering
pub mod Judging
pub mod Keeping
pub mod Remembering
pub mod Staying
