-- What the laws say of messages that are sent: what has to be met, and what is printed.
pub mod ChainOnce
pub mod FromSend
pub mod Together
