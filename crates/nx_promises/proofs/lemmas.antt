-- Lemmas that several proofs cite.
pub mod chain
pub mod channels
pub mod emissions
pub mod examples
pub mod from_send
pub mod listening
pub mod locks
pub mod state
pub mod together
