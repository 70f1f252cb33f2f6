-- The texts of locks, and the copies in them.
pub mod Apart
pub mod Words
