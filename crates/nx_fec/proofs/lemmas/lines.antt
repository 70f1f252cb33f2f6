-- The lines of an air file, from its bytes to its one reading.
pub mod ExactLaws
pub mod Feed
pub mod Kept
pub mod LineExamples
pub mod LineLaws
pub mod Piece
pub mod ReadingLaws
pub mod Scan
pub mod WholeLine
