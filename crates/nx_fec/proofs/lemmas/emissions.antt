-- What is sent in two words for each position, and decoded again.
pub mod Aligned
pub mod Emission
pub mod EmissionLine
pub mod EncodingLaws
pub mod Framing
pub mod Pairing
pub mod RoundTrip
pub mod WordExamples
