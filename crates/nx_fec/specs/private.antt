-- What only private contracts, models and proofs cite.
pub mod CountedCode
pub mod Packing
pub mod PieceReading
pub mod ScannerFields
pub mod ScannerKept
pub mod WordClasses
pub mod WholeLines
pub mod LineRuns
