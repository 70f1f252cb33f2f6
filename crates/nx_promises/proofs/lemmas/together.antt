-- Several sendings that are taken together.
pub mod Arrived
pub mod Begun
pub mod Digit
pub mod Found
pub mod Headed
pub mod Heard
pub mod Joint
pub mod Parts
pub mod Sending
pub mod Told
pub mod Visible
