-- Runs over an air file: what they print, what they go on from, and what they leave.
pub mod Chain
pub mod Listen
pub mod ListenFrom
pub mod ListenOnce
pub mod Resume
pub mod State
