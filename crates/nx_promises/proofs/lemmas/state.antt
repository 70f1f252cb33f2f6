-- The text of a state, and runs that go on from it.
pub mod Chains
