-- Lemmas that several proofs cite.
pub mod Examples
pub mod broadcasts
pub mod damage
pub mod message_files
pub mod reception
pub mod strict_reading
