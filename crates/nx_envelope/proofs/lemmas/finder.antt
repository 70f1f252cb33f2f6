-- What the finder holds, and bytes that it takes several at once.
pub mod EightBytes
pub mod Hearing
pub mod PlainBytes
