-- The lines of any bytes, read, acted on and told.
pub mod Acting
pub mod AnyLine
pub mod AnyLines
pub mod Law
pub mod Reading
pub mod Reasons
pub mod Run
pub mod Scanning
pub mod Starting
pub mod Telling
pub mod Told
