pub mod AlikeClasses
pub mod LockPrinter
pub mod ReaderWords
pub mod CopyHearer
pub mod CopyTaker
