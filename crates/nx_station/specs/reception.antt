-- How emissions are received: what their path may damage, and the messages that are sent in them.
pub mod Path
pub mod PathExample
pub mod Sendings
