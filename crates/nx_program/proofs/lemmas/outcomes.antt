-- What a run leaves on its devices.
pub mod KnownStreams
pub mod Program
pub mod Report
pub mod WatchLines
pub mod WatchRuns
