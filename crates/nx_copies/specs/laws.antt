-- What the laws say of messages that are sent: what has to be met, and what is printed.
pub mod Emissions
pub mod LawTerms
pub mod Once
