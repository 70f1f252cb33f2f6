pub mod Runs
pub mod Transfers
pub mod air_files
pub mod emissions
pub mod private
pub mod texts
