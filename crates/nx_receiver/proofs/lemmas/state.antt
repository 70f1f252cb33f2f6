-- The text of a state, and runs that go on from it.
pub mod Answers
pub mod Behind
pub mod Bounds
pub mod Going
pub mod Reading
pub mod Splits
pub mod Writing
