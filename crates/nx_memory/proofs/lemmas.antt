-- Lemmas that several proofs cite.
pub mod Content
pub mod Examples
pub mod Known
pub mod Letters
pub mod Loading
pub mod Renewed
pub mod Rings
pub mod Rising
pub mod StateLaws
pub mod StateLines
pub mod StateTexts
pub mod StateWriting
pub mod Tables
