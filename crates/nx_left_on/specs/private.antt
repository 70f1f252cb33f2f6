-- What only private contracts, models and proofs cite.
pub mod Chain
