-- A message is printed once.
pub mod Found
pub mod Repeats
pub mod Rising
