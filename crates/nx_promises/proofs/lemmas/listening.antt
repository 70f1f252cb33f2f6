-- Air files, from their lines to the log.
pub mod ElementLines
pub mod Outcomes
