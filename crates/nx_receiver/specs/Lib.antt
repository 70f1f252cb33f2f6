pub mod ChannelReceiver
pub mod Commands
pub mod Listener
pub mod Moments
pub mod Receiver
pub mod air_file_runs
pub mod private
