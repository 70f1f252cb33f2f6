-- What is judged and printed.
pub mod Judging
pub mod Laws
pub mod Log
pub mod Logged
