-- The copies in a text, when one more byte comes.
pub mod Beginnings
pub mod Endings
pub mod HandedOut
pub mod OneMoreByte
pub mod OneOpenCopy
pub mod RawTexts
