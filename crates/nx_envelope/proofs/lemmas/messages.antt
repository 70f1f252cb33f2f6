-- The lines of messages, and words in them.
pub mod MessageLines
pub mod WordsInTexts
