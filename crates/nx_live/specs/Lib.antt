pub mod Room
pub mod Places
pub mod Lending
pub mod Answers
