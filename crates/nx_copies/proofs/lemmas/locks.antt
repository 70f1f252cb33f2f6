-- The texts of locks, and the copies in them.
pub mod AlikeWords
pub mod Found
pub mod Growing
pub mod Moves
pub mod PlainPairs
pub mod ReaderWords
pub mod StillStands
pub mod Texts
pub mod Told
