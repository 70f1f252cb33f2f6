-- Chains of watches and the log that they leave.
pub mod ByEachRead
pub mod Chains
pub mod Files
pub mod First
pub mod Found
pub mod Keeps
pub mod Later
pub mod Links
pub mod Once
pub mod OneCall
pub mod Stood
