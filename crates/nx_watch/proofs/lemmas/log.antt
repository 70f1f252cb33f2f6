-- The log of a watch, opened, remembered and added to.
pub mod Finish
pub mod CombinedLoggable
pub mod Loggable
pub mod Keeping
pub mod Opening
pub mod Remembering
pub mod Stamping
pub mod Stamps
pub mod Start
pub mod LoggingListener
pub mod Cutting
