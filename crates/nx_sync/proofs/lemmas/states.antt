-- What stands after a list of bits, and after more of them.
pub mod Hearing
pub mod KeptPast
pub mod Lists
pub mod OneBit
pub mod Pushes
pub mod StateChanges
pub mod UniqueStates
