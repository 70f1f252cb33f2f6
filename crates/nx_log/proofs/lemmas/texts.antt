-- Times, queries and lines of JSON as texts.
pub mod JsonTexts
pub mod Moments
pub mod QueryTexts
pub mod TimeTexts
