-- What `send` writes, listened to.
pub mod Copies
pub mod Different
pub mod Files
pub mod Heard
pub mod Log
pub mod Words
