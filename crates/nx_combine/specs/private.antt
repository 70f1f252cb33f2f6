-- What only private contracts, models and proofs cite.
pub mod CombiningLaws
pub mod HeldFamilies
pub mod Kept
pub mod PlainHead
pub mod RingPlaces
pub mod TakerSteps
pub mod laws
pub mod CombinedPrinting
pub mod CombinedReceiver
pub mod Families
pub mod Judging
pub mod HeardTogether
