-- Message files, line by line and message by message.
pub mod FileLaws
pub mod FileReading
pub mod Line
pub mod MessageFault
