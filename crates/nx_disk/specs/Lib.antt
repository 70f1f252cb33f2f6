pub mod Events
pub mod Fresh
pub mod Reasons
