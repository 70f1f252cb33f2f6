pub mod Reader
pub mod ReportWriter
pub mod ReportWriterBegins
pub mod Reporting
pub mod Showing
pub mod Taker
pub mod TakerLaws
