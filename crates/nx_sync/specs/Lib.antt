pub mod Words
pub mod Locks
pub mod private
pub mod Steps
pub mod Laws
pub mod Windows
pub mod Synchroniser
pub mod Ahead
