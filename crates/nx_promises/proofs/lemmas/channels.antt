-- Three channels, each with its share, and what is printed in turn.
pub mod Unnamed
