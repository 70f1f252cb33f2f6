-- Words and the table as text.
pub mod TableText
pub mod WordLine
