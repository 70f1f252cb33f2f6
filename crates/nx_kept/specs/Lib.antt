pub mod Disk
pub mod Record
pub mod Kept
pub mod Taker
pub mod Log
pub mod Open
pub mod private
