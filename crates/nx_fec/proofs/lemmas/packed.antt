-- Packed elements and the digits that they are read from.
pub mod Digits
pub mod Packed
pub mod PackedFronts
