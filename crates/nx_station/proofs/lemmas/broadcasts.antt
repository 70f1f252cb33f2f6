-- Messages as positions, and the file that sending writes of them.
pub mod Broadcast
pub mod Head
pub mod Pair
pub mod SendingLaws
pub mod Station
pub mod TransmissionLength
