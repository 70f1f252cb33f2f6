pub mod Releases
pub mod Windows
pub mod Calls
pub mod Eight
pub mod MarkBits
