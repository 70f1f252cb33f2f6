-- Words and the table of the code as lines of text.
pub mod Hexadecimal
pub mod TableText
pub mod WordLines
