pub mod Found
pub mod LockText
pub mod Report
pub mod ReportText
pub mod Run
pub mod private
