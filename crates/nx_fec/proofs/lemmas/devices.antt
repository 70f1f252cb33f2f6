-- What is said of readers and writers, call by call.
pub mod Piece
pub mod RunLaws
pub mod TransferLaws
pub mod WritingLaws
