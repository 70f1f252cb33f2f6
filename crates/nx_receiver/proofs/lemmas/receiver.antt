-- What a receiver stands after, and what it prints.
pub mod Events
pub mod Feeds
pub mod Finishing
pub mod Given
pub mod Printing
