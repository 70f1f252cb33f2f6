-- Headers and markers: where they stand, and how they are spelled.
pub mod Anywhere
pub mod Identities
pub mod LettersAndDigits
pub mod ReadAtTheEnd
pub mod Rising
pub mod SpelledHeaders
pub mod Stages
