-- What only private contracts and proofs cite.
pub mod Effects
pub mod Running
pub mod Scanning
pub mod AnyReading
pub mod Keeping
pub mod Remembering
pub mod Cutting
pub mod Entries
pub mod Answering
pub mod LoggingListener
pub mod Stamping
pub mod LineRun
pub mod Stamp
