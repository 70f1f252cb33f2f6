-- Windows, patterns and phasing, where no lock stands.
pub mod Blocks
pub mod Hunting
pub mod Lanes
pub mod Numbers
pub mod PackedParts
pub mod Patterns
pub mod Phasing
pub mod PhasingStates
pub mod Strides
