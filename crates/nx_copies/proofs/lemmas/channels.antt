-- Three channels, each with its share, and what is printed in turn.
pub mod Added
pub mod Marked
pub mod One
pub mod Shares
pub mod Some
