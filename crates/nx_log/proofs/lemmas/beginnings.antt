-- Bytes that are the beginning of an entry.
pub mod Bytes
pub mod Counts
pub mod Heads
pub mod Joins
pub mod Lists
pub mod Stages
pub mod Texts
pub mod Times
pub mod Wholes
