-- What a hearer of copies stands after, by elements and by words.
pub mod Bits
pub mod Hears
pub mod Packed
pub mod Parts
pub mod PlainWords
pub mod Takes
pub mod Texts
pub mod Words
pub mod WordsTaken
