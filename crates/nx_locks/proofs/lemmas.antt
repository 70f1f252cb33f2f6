-- Lemmas that several proofs cite.
pub mod Bits
pub mod Ends
pub mod FoundCopies
pub mod Growing
pub mod Hears
pub mod OneReport
pub mod Pairs
pub mod PlainWords
pub mod ReaderWords
pub mod Runs
pub mod Showing
pub mod Taking
pub mod WordsTaken
