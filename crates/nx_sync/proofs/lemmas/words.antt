-- The words of a lock: limits, roles, marks, and what ends it.
pub mod Computed
pub mod LastSteps
pub mod MarkBits
pub mod Marks
pub mod PartWords
pub mod Releases
pub mod Roles
pub mod WholeWords
pub mod WordLimits
pub mod WordLists
pub mod WordsAtOnce
