-- Lemmas that several proofs cite.
pub mod QuietElements
pub mod WordLoop
pub mod channels
pub mod copy_hearer
pub mod emissions
pub mod locks
pub mod once
pub mod printing
