-- Definitions that only private contracts and proofs cite.
pub mod Moments
pub mod Hearing
pub mod Opening
pub mod Receivers
pub mod Saving
pub mod CombiningPlaces
pub mod PlainPlaces
pub mod CombiningLaws
