-- A received emission: its lock, its text and its copies.
pub mod Headers
