pub mod Told
pub mod Faults
pub mod Calls
pub mod Handle
pub mod Families
pub mod ByKind
pub mod Opening
