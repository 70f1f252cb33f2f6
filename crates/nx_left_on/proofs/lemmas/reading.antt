-- Lemmas of the laws of reading a kept log.
pub mod Among
pub mod Placed
pub mod Quiet
pub mod Reaches
pub mod Rests
pub mod Staying
pub mod Written
