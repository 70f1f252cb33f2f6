-- Copies, from the text of a lock to the log: found, judged and printed, on each channel.
pub mod AlikeWords
pub mod FoundCopies
pub mod InTurn
pub mod LockText
pub mod Log
pub mod Printing
pub mod Shares
