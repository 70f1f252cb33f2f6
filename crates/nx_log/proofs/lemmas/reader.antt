-- A reader of a log, stage by stage.
pub mod Begun
pub mod Judged
pub mod Steps
pub mod Tails
