pub mod Reading
pub mod LogReading
