-- What runs wrote, remembered and told.
pub mod Laws
pub mod LogRuns
pub mod Outputs
pub mod Placing
pub mod Remembering
pub mod Replacing
pub mod Stretches
pub mod Telling
