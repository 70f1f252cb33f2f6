-- Elements read back as the messages of an emission.
pub mod CheckingLaws
pub mod EmissionFaults
pub mod EmissionReading
pub mod PrintedText
pub mod ReadingBack
