-- Moments and their civil texts.
pub mod CivilTimes
pub mod EveryMoment
pub mod OneText
