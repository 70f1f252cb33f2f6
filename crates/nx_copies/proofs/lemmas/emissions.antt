-- A received emission: its lock, its text and its copies.
pub mod Copies
pub mod Emissions
pub mod Found
pub mod Locks
pub mod Markers
pub mod Places
pub mod Positions
pub mod Printed
pub mod Texts
